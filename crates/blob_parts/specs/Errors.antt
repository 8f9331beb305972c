-- Refusals of bytes.
use Rattle.blob_parts.specs.declared.read.FetchError.{FetchError}
use Rattle.blob_parts.specs.declared.read.FetchError.TheVariants.{Fault, NoMemory}
use Rattle.directory_input.specs.declared.files.BytesError.{BytesError}
use Rattle.directory_input.specs.declared.files.BytesError.TheVariants as bytes

-- the refusal of a reader that it is
abbrev pub bytes_error : FetchError → BytesError
bytes_error Fault = bytes.Fault
bytes_error NoMemory = bytes.NoMemory
