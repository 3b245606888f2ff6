pub mod Words
pub mod Rehearsal
pub mod OutputParts
pub mod CaptureOutputs
pub mod OutputLaws
pub mod Answering
pub mod PrintedReports
pub mod RunEnds
pub mod Inputs
pub mod HostLines
pub mod Commands
pub mod KilledRuns
pub mod WorkedRows
pub mod KeptInputs
unfoldable pub use Words.*
unfoldable pub use Rehearsal.*
unfoldable pub use OutputParts.*
unfoldable pub use CaptureOutputs.*
unfoldable pub use OutputLaws.*
unfoldable pub use Answering.*
unfoldable pub use PrintedReports.*
unfoldable pub use RunEnds.*
unfoldable pub use Inputs.*
unfoldable pub use HostLines.*
unfoldable pub use Commands.*
unfoldable pub use KilledRuns.*
unfoldable pub use WorkedRows.*
unfoldable pub use KeptInputs.*
