mod Fields
mod Found
mod Halves
mod Lasts
