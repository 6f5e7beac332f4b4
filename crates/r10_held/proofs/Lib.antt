pub mod Accounts
pub mod Leavings
pub mod Keeps
pub mod Firsts
mod Instalments
mod Refusing
mod Agreeing
mod Comparing
mod Several
mod Absent
