pub mod HashLaws
pub mod ChainLaws
pub mod BackwardLaws
pub mod KeyLaws
