pub mod Authenticator
