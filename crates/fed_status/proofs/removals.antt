-- What goes of the permissions.
pub mod PairGoes
