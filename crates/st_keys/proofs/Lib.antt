mod Texts
mod Reading
mod Ordered
mod KeyLaws
