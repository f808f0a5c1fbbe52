pub mod replies
