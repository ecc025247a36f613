mod Digits
mod Numerals
mod Pairs
mod Printed
