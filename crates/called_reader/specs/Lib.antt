pub mod CalledGroups
