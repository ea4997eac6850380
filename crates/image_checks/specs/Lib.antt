pub mod Agreement
pub mod Firsts
pub mod Contents
pub mod PlanFault
pub mod Agree
pub mod OwnPages
