mod Made
mod Named
mod Taken
