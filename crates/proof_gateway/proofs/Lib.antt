mod Lawful
mod Members
mod Contents
mod Agree
mod TwoGateways
