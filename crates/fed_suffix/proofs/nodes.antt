-- A node as the set of what is left of rules, and the walk from node to node.
pub mod Node
pub mod Form
pub mod Opened
pub mod Walk
