mod Outer
mod WrittenStates
