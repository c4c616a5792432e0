pub mod CheckStep
