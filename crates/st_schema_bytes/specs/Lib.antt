pub mod SchemaBytes
