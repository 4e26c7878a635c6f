mod Arms
mod Fronts
mod Stays
