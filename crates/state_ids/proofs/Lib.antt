mod Given
mod Gone
