pub mod Paging
