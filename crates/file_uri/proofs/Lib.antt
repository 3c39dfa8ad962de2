pub mod PathLaws
pub mod UriLaws
