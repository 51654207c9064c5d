pub mod Models
pub mod Lists
