-- Why a text is not read, and what refused its bytes.
use Rattle.std.specs.Prelude.{Option, Some, None, Result, Ok, Err}
use Rattle.directory_input.specs.declared.files.BytesError.{BytesError}
use Rattle.text_lines.specs.declared.reader.LineError.{LineError}
use Rattle.text_lines.specs.declared.reader.LineError.TheVariants.{Unended, TooLong, Bytes}
use Rattle.text_lines.specs.declared.errors.TextError.{TextError}
use Rattle.text_lines.specs.declared.errors.TextError.TheVariants.{Bad, Bytes as OfBytes}

-- a line that does not end, or is too long, breaks the form of its text
abbrev pub text_error : LineError → TextError
text_error (Unended at) = Bad at
text_error (TooLong at) = Bad at
text_error (Bytes e) = OfBytes e

-- the refusal of the bytes that an error is
abbrev pub bytes_refusal : TextError → Option BytesError
bytes_refusal (Bad at) = None
bytes_refusal (OfBytes e) = Some e

-- the refusal of the bytes that an answer is
abbrev pub text_refusal : {T : Type 0} → Result T TextError → Option BytesError
text_refusal (Ok x) = None
text_refusal (Err e) = bytes_refusal e
