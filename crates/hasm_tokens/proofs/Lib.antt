pub mod TokenLaws
pub mod BoundLaws
pub mod AddressLaws
pub mod TextLaws
