pub mod HeadTable
pub mod Laws
pub mod Plan
