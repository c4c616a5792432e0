pub mod Results
pub mod Steps
pub mod Batches
