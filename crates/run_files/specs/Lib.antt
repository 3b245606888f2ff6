pub mod Words
pub mod RunFault
pub mod Streams
pub mod Loading
pub mod WrittenOutputs
pub mod Dumps
pub mod SeenTexts
pub mod Folders
unfoldable pub use Words.*
unfoldable pub use RunFault.*
unfoldable pub use Streams.*
unfoldable pub use Loading.*
unfoldable pub use WrittenOutputs.*
unfoldable pub use Dumps.*
unfoldable pub use SeenTexts.*
unfoldable pub use Folders.*
