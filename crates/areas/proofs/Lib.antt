-- Laws of writing into an area.
mod Written
