-- Name, domain and path of a cookie.
pub mod Keys
