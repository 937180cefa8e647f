-- Laws of guards.
mod Guards
