pub mod Demand
pub mod Files
pub mod Instances
pub mod Forbidden
pub mod Various
