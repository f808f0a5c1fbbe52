-- Lists of what is kept, as items come and go.
pub mod Same
pub mod Others
pub mod Entries
