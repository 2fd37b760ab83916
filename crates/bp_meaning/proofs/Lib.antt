mod Sets
mod Places
