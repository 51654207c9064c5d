-- The promises.
pub mod Calls
pub mod Growing
pub mod InstancesShown
pub mod ClosedLists
