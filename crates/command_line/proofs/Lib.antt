mod Accepted
mod Matched
