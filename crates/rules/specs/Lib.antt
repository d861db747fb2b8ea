pub mod Local
