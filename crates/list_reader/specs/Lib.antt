pub mod RecordGroups
