pub mod Recordings
pub mod RowShares
pub mod DeliveryLaws
pub use Rattle.pcap_records.specs.Instants
pub use Rattle.pcap_records.specs.CaptureView
