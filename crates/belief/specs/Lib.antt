pub mod Chosen
pub mod RoundsRun
