mod KeptSlots
mod Orders
