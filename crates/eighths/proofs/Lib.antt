pub mod Lists
pub mod Judged
pub mod Laws
pub mod Cases
