mod ArgumentsSpelled
mod Greatest
mod OutTables
mod OutputsCounted
mod PartsSpelled
mod RewritersSpelled
mod Rows
mod WordsCut
