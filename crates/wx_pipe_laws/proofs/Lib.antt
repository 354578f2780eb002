mod Orders
mod Openers
mod Texts
mod Bytes
mod Echo
