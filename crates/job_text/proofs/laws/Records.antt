-- How many records a file has.
pub use Rattle.job_text.proofs.Reading.{few_records}
