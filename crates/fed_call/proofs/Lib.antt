pub mod agreed
pub mod providers
pub mod shortlists
pub mod table
pub mod beginning
pub mod replies
pub mod declining
