-- What effects say, and what the effects of an outcome say.
pub mod Same
pub mod Silent
pub mod Outcome
