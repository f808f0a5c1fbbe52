-- Lists as seams of links: one, and all of a family.
pub mod Seams
pub mod Threads
pub mod Families
