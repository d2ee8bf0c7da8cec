mod BodiesOfUnits
mod Growing
mod Pools
mod Uses
