pub mod HasmTrials
