pub mod Single
pub mod Functions
pub mod CheckNode
pub mod VariableNode
