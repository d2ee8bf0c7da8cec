mod Maps
mod Preorder
mod Kept
mod Pairs
mod Climbing
mod Told
