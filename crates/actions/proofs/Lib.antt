-- Laws of actions and of the statements in their scopes.
pub mod Actions
pub mod Read
