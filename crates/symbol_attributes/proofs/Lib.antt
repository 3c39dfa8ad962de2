pub mod EquateLaws
