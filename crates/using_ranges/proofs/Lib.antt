mod Best
mod Masks
