mod Parts
mod Acting
pub mod CellWakers
mod TableActing
mod TableWakers
pub mod TableLaws
mod TwoKinds
pub mod KeyValidity
mod KeyValues
pub mod Wakers
pub mod Validity
