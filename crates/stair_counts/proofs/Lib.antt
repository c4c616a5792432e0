pub mod Recount
