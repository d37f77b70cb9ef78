-- What the contracts of the bridge cite, over the definitions of the layers below.
pub mod Told
pub mod Monomials
pub mod Numbers
pub mod Records
