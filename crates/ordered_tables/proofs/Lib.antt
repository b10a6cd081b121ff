pub mod Places
pub mod TextSetPlaces
pub mod TextMapPlaces
pub mod IdIndexGroups
pub mod NodeSetMembers
